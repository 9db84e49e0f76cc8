mod Weighed
