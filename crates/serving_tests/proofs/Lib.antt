mod Seeing
